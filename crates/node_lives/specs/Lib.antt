pub mod Lives
pub mod Beginnings
