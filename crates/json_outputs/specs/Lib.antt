pub mod Names
pub mod Fields
pub mod Elements
pub mod Outputs
pub mod Texts
