pub mod Budgets
pub mod Labels
pub mod Levels
pub mod Matching
pub mod ProductParts
