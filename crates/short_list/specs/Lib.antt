pub mod Short
pub mod Text
pub mod Complete
pub mod Steps
