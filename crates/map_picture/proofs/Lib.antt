mod Filled
mod Numbered
mod Rendered
mod Sizes
mod Wedged
