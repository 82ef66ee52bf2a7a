pub mod Explored
pub mod Small
pub mod Tracks
pub mod inner
