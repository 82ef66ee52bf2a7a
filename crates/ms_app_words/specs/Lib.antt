pub mod Command
pub mod inner
