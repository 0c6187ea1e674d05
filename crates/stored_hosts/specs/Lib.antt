pub mod Acts
pub mod Committing
pub mod Finding
pub mod Leaving
pub mod Names
pub mod Surveying
