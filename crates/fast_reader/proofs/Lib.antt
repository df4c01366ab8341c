pub mod Slots
pub mod Plain
pub mod Repeats
pub mod Placing
pub mod Modrm
