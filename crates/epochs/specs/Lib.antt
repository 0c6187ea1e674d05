pub mod Epochs
pub mod Scheduling
pub mod Again
