mod Lines
mod Served
