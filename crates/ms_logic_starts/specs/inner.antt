pub mod Examples
pub mod Ranks
pub mod Row
