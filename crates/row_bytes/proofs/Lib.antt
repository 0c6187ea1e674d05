mod Behind
mod Items
mod Numbers
mod Parts
mod Taken
mod Wholes
mod Written
