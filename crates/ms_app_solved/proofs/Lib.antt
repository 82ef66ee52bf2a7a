pub mod Alone
pub mod SetVariables
pub mod Taken
pub mod Told
