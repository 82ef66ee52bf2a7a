pub mod Examples
pub mod Images
pub mod Map
pub mod Open
pub mod OverNumbers
