pub mod Callers
mod AsNamed
mod Told
