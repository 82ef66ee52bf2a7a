pub mod Continuations
pub mod Faults
pub mod OneTree
pub mod Trials
