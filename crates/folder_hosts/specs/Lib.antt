pub mod Databases
pub mod Faults
pub mod Folders
pub mod Starting
pub mod System
