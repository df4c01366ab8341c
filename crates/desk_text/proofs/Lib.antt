pub mod Digits
pub mod Laws
pub mod Whole
pub mod Cases
