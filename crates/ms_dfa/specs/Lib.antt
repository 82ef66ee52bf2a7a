pub mod Automaton
pub mod Files
pub mod Machine
pub mod Narrow
pub mod Part
pub mod Values
pub mod inner
