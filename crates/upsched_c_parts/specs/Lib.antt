pub mod Owned
pub mod Fronts
pub mod Outputs
