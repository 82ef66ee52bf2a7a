pub mod Adopted
pub mod Enough
pub mod Imports
pub mod Laws
pub mod inner
