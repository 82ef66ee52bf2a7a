pub mod Closure
pub mod Way
pub mod inner
