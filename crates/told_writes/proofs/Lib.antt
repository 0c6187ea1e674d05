pub mod Callers
mod Handing
mod Contents
mod Leading
mod Told
