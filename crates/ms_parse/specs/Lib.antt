pub mod Refused
pub mod inner
