pub mod Ends
pub mod Lines
pub mod Folder
pub mod Serving
pub mod Running
