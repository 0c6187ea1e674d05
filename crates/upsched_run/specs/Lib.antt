pub mod RunLines
pub mod Run
