mod Asked
pub mod Commands
mod Consumed
mod InPlace
mod Words
mod Written
