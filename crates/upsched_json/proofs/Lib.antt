pub mod Callers
mod Printed
