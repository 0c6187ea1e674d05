mod Best
mod Doing
mod Finds
mod Greatest
mod Listed
mod Named
