pub mod Laws
pub mod Measuring
