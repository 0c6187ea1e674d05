mod Holding
mod Rowing
mod Summing
