pub mod DecodedWords
pub mod DecodingLemmas
pub mod SubsetContent
pub mod SubsetRuns
pub mod SubsetWords
pub mod WordLaws
pub mod ZeroLetters
