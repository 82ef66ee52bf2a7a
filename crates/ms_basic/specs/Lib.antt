pub mod Bits
pub mod Operands
pub mod Sets
pub mod States
pub mod Verdict
pub mod inner
