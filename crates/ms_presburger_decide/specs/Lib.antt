pub mod Answer
pub mod Laws
pub mod Problem
pub mod inner
