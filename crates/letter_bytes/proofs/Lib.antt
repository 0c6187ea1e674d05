pub mod Callers
mod Fields
mod Longest
mod Loop
mod Notes
mod Votes
