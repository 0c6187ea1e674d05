pub mod Commitless
pub mod Crashes
pub mod Runs
pub mod Starts
pub mod Stops
pub mod Surveys
