mod AsMaps
mod Ended
