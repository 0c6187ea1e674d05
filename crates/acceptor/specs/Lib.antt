pub mod Answers
pub mod Calls
pub mod Content
pub mod Faults
pub mod Found
pub mod Kept
