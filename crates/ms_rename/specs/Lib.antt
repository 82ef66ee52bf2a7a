pub mod Renamed
pub mod Whole
pub mod inner
