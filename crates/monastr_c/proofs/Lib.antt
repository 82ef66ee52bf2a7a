pub mod Logs
pub mod Runs
pub mod SameLengths
pub mod Spelled
