pub mod Laws
pub mod ByNdisasm
pub mod Counts
pub mod Texts
pub mod Complete
pub mod Cases
