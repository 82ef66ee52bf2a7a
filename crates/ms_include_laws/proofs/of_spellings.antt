pub mod Files
pub mod Items
pub mod Loads
pub mod Reading
pub mod Worked
