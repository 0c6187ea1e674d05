pub mod Turns
pub mod Beginning
pub mod Lives
pub mod Served
pub mod Batches
pub mod Starting
