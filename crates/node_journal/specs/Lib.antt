pub mod Turns
pub mod Journal
pub mod Legal
pub mod Following
pub mod Tears
pub mod Counts
