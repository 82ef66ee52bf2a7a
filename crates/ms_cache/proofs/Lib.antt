pub mod Among
pub mod KeyLemmas
pub mod MemoLemmas
