pub mod Deep
pub mod Examples
pub mod Gathering
pub mod Machine
pub mod Reached
pub mod States
pub mod Terminals
