mod Named
mod Served
mod Started
