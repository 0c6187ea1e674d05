pub mod Callers
mod Joined
mod Pushed
mod Sound
mod Texts
