mod Spelled
mod Votes
