pub mod Callers
mod OneValue
mod Quorums
mod Safety
