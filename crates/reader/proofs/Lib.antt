pub mod ByRow
pub mod Laws
pub mod Questions
