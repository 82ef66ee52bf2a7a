pub mod Asked
pub mod CallExamples
pub mod CallLaws
pub mod Copies
pub mod Examples
pub mod Filling
pub mod HandoverLaws
