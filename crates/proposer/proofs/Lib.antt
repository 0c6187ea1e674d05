pub mod Joins
pub mod Turning
