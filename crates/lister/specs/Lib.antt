pub mod Runs
pub mod Listing
pub mod Demand3
