pub mod Loading
pub mod Demand2
