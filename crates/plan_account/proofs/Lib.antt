mod Covering
mod Faulting
mod Scheduled
mod Growing
mod Rowing
