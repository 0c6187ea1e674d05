pub mod Callers
mod Told
