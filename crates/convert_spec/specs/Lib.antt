pub mod Refusals
pub mod Counts
pub mod OldStarts
pub mod Targets
pub mod Written
pub mod Converting
