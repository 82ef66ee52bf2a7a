pub mod Examples
pub mod Run
