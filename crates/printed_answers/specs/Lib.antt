pub mod Texts
pub mod Letters
