pub mod Key
pub mod Memo
