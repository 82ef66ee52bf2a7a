pub mod Examples
pub mod Parts
pub mod Reading
pub mod Rules
