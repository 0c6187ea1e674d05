mod Divisions
mod Bits
mod WorkedExamples
mod Framed
