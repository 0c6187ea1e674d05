mod Joined
mod Scheduled
mod Told
pub mod Callers
