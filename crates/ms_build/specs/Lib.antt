pub mod Built
pub mod Connectives
pub mod Laws
pub mod Roots
pub mod Short
pub mod Wider
pub mod inner
