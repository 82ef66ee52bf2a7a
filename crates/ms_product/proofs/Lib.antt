pub mod ChangeLemmas
pub mod CombineSteps
pub mod CombinedLemmas
pub mod ProductLemmas
pub mod SizeLemmas
pub mod StateLemmas
pub mod WidenedLemmas
