pub mod Alone
pub mod Tokens
