pub mod Bars
pub mod Lines
pub mod Texts
pub mod Columns
