pub mod Defined
pub mod Extents
pub mod Given
pub mod Left
pub mod Orders
pub mod Scope
