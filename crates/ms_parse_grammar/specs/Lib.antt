pub mod Continuation
pub mod Declarations
pub mod Grammar
pub mod Reads
pub mod Size
pub mod Symbol
pub mod Tree
pub mod View
