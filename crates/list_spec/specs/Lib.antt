pub mod Operands
pub mod Parts
pub mod Starts
pub mod Encodings
pub mod Possible
pub mod Candidates
pub mod Entries
pub mod Demand3
