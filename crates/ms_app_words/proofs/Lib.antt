pub mod Matches
pub mod OneCommand
pub mod Taken
pub mod Verbs
