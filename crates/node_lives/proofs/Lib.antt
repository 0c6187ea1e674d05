mod Lived
mod Begun
