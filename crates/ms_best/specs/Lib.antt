pub mod FirstWord
pub mod inner
