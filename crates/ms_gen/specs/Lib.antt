pub mod Accepted
pub mod Generated
pub mod inner
