pub mod Checked
pub mod Constants
pub mod Exports
pub mod Names
pub mod Orders
pub mod Spellings
pub mod inner
