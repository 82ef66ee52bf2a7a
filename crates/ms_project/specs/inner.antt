pub mod Examples
pub mod Later
