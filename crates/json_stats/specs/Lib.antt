pub mod Tallies
pub mod Flows
