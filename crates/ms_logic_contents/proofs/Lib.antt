pub mod Covers
pub mod FullContents
pub mod Signed
