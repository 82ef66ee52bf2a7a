pub mod Operation
pub mod Outcome
pub mod Progress
