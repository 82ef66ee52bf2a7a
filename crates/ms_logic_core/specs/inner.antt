pub mod CallExamples
pub mod SpreadCount
pub mod SpreadExamples
pub mod SpreadLaws
