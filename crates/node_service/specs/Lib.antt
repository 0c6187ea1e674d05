pub mod Incoming
pub mod Texts
pub mod Serving
pub mod Seated
pub mod Came
pub mod Batched
