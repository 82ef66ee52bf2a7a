pub mod Told
pub mod inner
