pub mod Bodies
pub mod Fields
pub mod Known
pub mod Rooms
