pub mod Digits
pub mod Meaning
pub mod Numbers
pub mod Sets
pub mod Source
pub mod Tree
pub mod View
pub mod inner
