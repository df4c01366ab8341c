pub mod Compared
pub mod Least
