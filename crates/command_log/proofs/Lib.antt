pub mod Callers
mod WorkedRows
mod Rows
mod Runs
mod Outputs
mod Applied
mod Spelled
mod Fields
mod Forms
