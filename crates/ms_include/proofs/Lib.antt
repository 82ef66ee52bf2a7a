pub mod Bounds
pub mod Main
pub mod Opening
pub mod Parts
pub mod Placing
