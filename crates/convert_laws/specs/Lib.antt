pub mod Branches
pub mod NewRecords
pub mod Converts
pub mod Passed
