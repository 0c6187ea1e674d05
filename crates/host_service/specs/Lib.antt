pub mod Numbers
pub mod Asking
pub mod Texts
pub mod Replying
pub mod Serving
pub mod Longest
pub mod Waiting
