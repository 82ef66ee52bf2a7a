pub mod Budgets
pub mod CallMeasures
pub mod FullContent
pub mod Starts
pub mod Steps
pub mod inner
