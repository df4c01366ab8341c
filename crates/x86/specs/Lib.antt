pub mod Forms
pub mod Instructions
pub mod Reading
pub mod Listing
pub mod Rows
pub mod Operands
