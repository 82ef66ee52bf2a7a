pub mod Needed
pub mod Reduced
pub mod SignReading
pub mod inner
