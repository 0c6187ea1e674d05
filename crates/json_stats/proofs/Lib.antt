mod Plain
pub mod Added
