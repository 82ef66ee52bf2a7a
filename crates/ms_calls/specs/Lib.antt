pub mod Fewest
pub mod Products
pub mod Projections
pub mod Relations
pub mod Renamings
pub mod Widenings
