pub mod Callers
mod Lists
mod Rows
mod Invariant
mod Growth
mod Writes
mod Kept
mod Sound
mod Sending
mod Joins
mod Acceptors
mod Learners
mod Proposers
mod Outputs
mod After
mod Moves
pub mod Runs
mod Existence
pub mod Schedule
mod Hearings
mod Drawn
mod Owners
pub mod Whole
pub mod Joining
mod Answered
pub mod Places
pub mod Asking
pub mod Same
pub mod Counted
