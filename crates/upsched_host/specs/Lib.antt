pub mod Named
pub mod Serving
