pub mod Encodings
pub mod Pairs
pub mod Readings
pub mod Spread
