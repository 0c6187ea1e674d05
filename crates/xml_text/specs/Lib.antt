pub mod Xml
pub mod WellFormed
pub mod Drawings
pub mod Each
