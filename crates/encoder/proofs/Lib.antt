pub mod Joins
pub mod Tails
pub mod Heads
pub mod Tied
pub mod Laws
pub mod Encoded
