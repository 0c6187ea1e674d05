pub mod Callers
pub mod Certain
pub mod Greatest
pub mod SoundRows
