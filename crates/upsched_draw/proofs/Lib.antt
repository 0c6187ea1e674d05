mod Chosen
mod Drawn
mod Seen
mod Told
