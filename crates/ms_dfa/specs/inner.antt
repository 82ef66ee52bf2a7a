pub mod Examples
pub mod Function
