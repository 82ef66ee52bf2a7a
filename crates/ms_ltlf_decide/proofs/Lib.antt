pub mod Answered
pub mod Lines
pub mod Orders
pub mod Solved
pub mod TraceAnswers
pub mod WorkedTraces
