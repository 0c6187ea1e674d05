pub mod Tails
pub mod Ties
