mod PlainLetters
mod Plain
mod Told
