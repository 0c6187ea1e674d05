mod Runs
mod Ends
mod New
mod Members
pub mod Callers
