pub mod Certificate
pub mod Laws
pub mod Proven
pub mod ShortestWords
pub mod Text
pub mod inner
