pub mod States
pub mod Writes
pub mod Telling
pub mod Told
