pub mod ContentExamples
pub mod Decoding
pub mod WordLaws
