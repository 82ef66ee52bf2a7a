pub mod Choices
pub mod Contents
pub mod Diagrams
pub mod Exploring
pub mod Finding
pub mod MadeNodes
pub mod Making
mod OneState
pub mod Quotients
pub mod Reached
pub mod Representatives
pub mod Residuals
pub mod Runs
pub mod Sights
pub mod Stores
pub mod Walks
