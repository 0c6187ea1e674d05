pub mod Values
pub mod Owners
pub mod Steps
