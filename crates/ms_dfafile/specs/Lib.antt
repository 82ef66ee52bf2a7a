pub mod File
pub mod Laws
pub mod Spelling
pub mod inner
