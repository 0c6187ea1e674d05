mod SlotLemmas
mod KeptStates
mod Openings
mod Windows
mod ActedLemmas
mod Steps
mod Taken
mod Going
mod Contents
mod Entered
mod Joining
mod Keeps
mod Starts
pub mod Callers
