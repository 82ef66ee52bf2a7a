pub mod FirstAssignments
pub mod VerdictLemmas
