mod Memory
mod Noting
mod Running
mod Ending
