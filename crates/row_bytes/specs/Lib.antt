pub mod Spelling
pub mod Fits
pub mod Faults
pub mod Reading
pub mod Tables
