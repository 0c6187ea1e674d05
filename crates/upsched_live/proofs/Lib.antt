mod Verdicts
mod Alike
