mod Counting
mod Holding
