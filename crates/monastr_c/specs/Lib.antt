pub mod Buffers
pub mod Ran
pub mod Reply
pub mod Request
pub mod Told
pub mod inner
