pub mod Grounds
pub mod Laws
pub mod Shown
pub mod Cut
pub mod Grounded
