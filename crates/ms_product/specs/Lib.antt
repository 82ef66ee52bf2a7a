pub mod Combined
pub mod Pairing
pub mod Signs
pub mod Widened
pub mod inner
