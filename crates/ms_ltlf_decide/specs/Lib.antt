pub mod Answer
pub mod Formula
pub mod Laws
