pub mod Kinds
pub mod Rows
pub mod Fits
pub mod Items
pub mod Faults
pub mod Texts
pub mod Unfit
pub mod Unread
