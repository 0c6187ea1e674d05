pub mod Callers
mod Channels
mod Changes
mod Cuts
mod Defaults
mod Flows
mod Pairs
mod ScriptFaults
mod Keys
mod Reading
mod Taken
mod Steps
mod Entries
