pub mod Arena
pub mod Bits
pub mod Diagram
pub mod Halves
pub mod Leaves
pub mod Reach
pub mod Target
pub mod inner
