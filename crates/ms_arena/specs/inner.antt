pub mod Bucket
pub mod Chain
pub mod Code
pub mod Packing
pub mod Table
