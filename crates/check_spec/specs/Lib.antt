pub mod Checking
pub mod Landing
