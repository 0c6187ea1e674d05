pub mod Exact
pub mod Sending
pub mod Letters
pub mod Histories
mod Lengths
mod Encoding
mod Learned
