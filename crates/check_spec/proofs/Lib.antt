pub mod Near
pub mod Landing
pub mod Cases
