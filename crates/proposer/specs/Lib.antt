pub mod Bounds
pub mod Faults
pub mod Joining
pub mod Letters
pub mod Proposing
pub mod Roles
pub mod Turns
