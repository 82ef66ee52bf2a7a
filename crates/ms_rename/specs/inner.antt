pub mod Choice
pub mod Image
