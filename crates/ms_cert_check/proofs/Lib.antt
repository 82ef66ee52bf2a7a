pub mod Completeness
pub mod Findings
pub mod Later
pub mod Lines
pub mod Passed
