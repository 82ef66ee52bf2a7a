pub mod Fault
pub mod Gap
pub mod Spelling
pub mod TokenList
pub mod inner
