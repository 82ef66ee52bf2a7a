pub mod Agreeing
pub mod Asked
pub mod Counts
pub mod Declared
pub mod Exports
pub mod Globals
pub mod Quantifiers
pub mod Rules
