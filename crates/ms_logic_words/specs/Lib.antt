pub mod Canonical
pub mod Content
pub mod Residual
pub mod Signs
pub mod Word
pub mod WordSign
pub mod inner
