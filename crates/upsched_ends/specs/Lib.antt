pub mod Members
pub mod Status
pub mod Faults
