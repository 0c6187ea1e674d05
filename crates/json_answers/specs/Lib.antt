pub mod Names
pub mod Answers
pub mod Letters
pub mod Events
