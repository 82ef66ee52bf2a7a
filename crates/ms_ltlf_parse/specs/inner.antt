pub mod Deep
pub mod Examples
pub mod Machine
pub mod Reached
pub mod Sights
pub mod States
pub mod Terminals
