pub mod Meaning
pub mod Source
pub mod Strings
pub mod Trace
pub mod Tree
pub mod View
pub mod inner
