pub mod Examples
pub mod Seen
