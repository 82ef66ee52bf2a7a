mod Built
mod Lengths
