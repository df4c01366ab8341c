pub mod Ground
pub mod ByBytes
pub mod Grounds
