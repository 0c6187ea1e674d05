pub mod Polynomials
pub mod Checks
pub mod Frames
pub mod Captures
