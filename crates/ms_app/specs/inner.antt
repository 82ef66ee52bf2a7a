pub mod CompletenessExamples
pub mod Delivery
pub mod Examples
pub mod Files
pub mod Laws
pub mod Right
