pub mod Binder
pub mod Examples
pub mod Free
pub mod Lists
