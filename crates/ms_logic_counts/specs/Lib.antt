pub mod Calls
pub mod Counts
pub mod Starts
pub mod inner
