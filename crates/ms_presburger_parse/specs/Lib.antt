pub mod Grammar
pub mod Reading
pub mod Refused
pub mod Symbol
pub mod inner
