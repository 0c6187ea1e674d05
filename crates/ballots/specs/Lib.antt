pub mod Ballots
pub mod Limits
pub mod Members
pub mod Voting
pub mod Rows
