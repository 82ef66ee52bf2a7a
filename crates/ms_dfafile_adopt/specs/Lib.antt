pub mod Import
pub mod Laws
pub mod Made
pub mod Naming
pub mod Readings
pub mod Sets
pub mod Short
pub mod inner
