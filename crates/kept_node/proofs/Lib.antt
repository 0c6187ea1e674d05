mod Once
mod Calling
mod Noting
pub mod Callers
