pub mod Questions
pub mod Found
pub mod Grounds
pub mod Cases
