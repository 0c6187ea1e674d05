pub mod Ends
pub mod First
pub mod Member
pub mod Serving
