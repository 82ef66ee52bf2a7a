pub mod FreeLemmas
pub mod JoinedLemmas
pub mod OccurrenceLemmas
pub mod OwnLemmas
pub mod PartLemmas
pub mod StepLemmas
pub mod SubformulaLemmas
pub mod SubformulaSteps
