pub mod Cues
pub mod Program
pub mod Compiling
pub mod Read
