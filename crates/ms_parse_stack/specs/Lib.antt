pub mod Refused
pub mod Symbols
pub mod inner
