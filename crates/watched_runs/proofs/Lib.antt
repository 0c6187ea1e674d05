mod Seeing
mod Growth
mod Cut
mod Followed
pub mod Stages
