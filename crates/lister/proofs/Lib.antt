pub mod Runs
pub mod Accepted
pub mod Demand3
pub mod Refusals
