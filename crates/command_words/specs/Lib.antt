pub mod Commands
pub mod Letters
