pub mod Examples
pub mod Frames
pub mod Machine
pub mod Opened
pub mod Sample
pub mod Settled
pub mod States
pub mod Stopped
