mod Begun
mod Looked
mod Made
mod Told
