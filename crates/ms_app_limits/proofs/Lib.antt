pub mod Asked
pub mod EmptySource
pub mod Inclusion
pub mod InclusionText
pub mod TruthBudgets
