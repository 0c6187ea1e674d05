pub mod Names
pub mod Came
pub mod Sweep
pub mod Kept
pub mod Plain
