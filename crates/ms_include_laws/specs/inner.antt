pub mod loads
pub mod places
pub mod spellings
