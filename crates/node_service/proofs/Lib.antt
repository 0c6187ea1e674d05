pub mod Served
mod Batching
mod Looping
