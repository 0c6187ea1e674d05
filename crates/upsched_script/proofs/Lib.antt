mod Tried
mod Spelled
