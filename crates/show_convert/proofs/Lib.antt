pub mod Answers
pub mod Writing
pub mod Patched
pub mod Fits
