pub mod Answer
pub mod ByRow
