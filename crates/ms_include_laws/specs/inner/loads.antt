pub mod Checks
pub mod Examples
pub mod Loads
pub mod Reading
