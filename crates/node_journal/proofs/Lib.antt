mod Pieces
mod Steps
mod Orders
mod Standing
mod Counting
