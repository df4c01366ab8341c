pub mod Named
pub mod Turns
pub mod Copies
pub mod Rows
