pub mod Words
pub mod Plans
