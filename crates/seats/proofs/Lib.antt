pub mod Callers
mod AtModem
mod Acting
mod Settling
mod Fresh
