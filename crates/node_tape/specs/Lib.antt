pub mod Heard
pub mod Spoken
