pub mod Certified
pub mod Check
pub mod Files
pub mod Laws
