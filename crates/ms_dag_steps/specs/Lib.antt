pub mod Laws
pub mod NodeSteps
pub mod Occurrences
pub mod OwnSteps
pub mod Subformulas
pub mod inner
