pub mod Files
pub mod Resuming
