pub mod Examples
pub mod Labels
pub mod Numbers
