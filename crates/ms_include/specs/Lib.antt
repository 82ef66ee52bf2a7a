pub mod File
pub mod Include
pub mod Load
pub mod inner
