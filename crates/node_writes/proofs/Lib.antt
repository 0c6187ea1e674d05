pub mod Callers
mod Made
mod Leading
mod Once
