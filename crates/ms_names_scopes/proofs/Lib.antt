pub mod Findings
pub mod FreeVariables
pub mod Lists
pub mod NamesRead
pub mod Places
pub mod Repeats
pub mod Sums
pub mod Tables
