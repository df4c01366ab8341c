pub mod Choose
pub mod Values
pub mod Operations
pub mod Registers
pub mod Refusals
pub mod Required
pub mod Builders
