pub mod AtLeast
pub mod Examples
pub mod Lacked
pub mod Ranges
pub mod Uses
