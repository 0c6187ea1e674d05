mod Placed
mod Bands
mod Firsts
mod Heard
mod Rendered
mod Sizes
