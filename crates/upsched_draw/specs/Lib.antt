pub mod Learned
pub mod Transmitted
pub mod Draws
