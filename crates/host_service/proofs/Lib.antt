mod Digits
mod Apart
mod Behind
mod Longest
mod Runs
mod Ends
mod Awaited
