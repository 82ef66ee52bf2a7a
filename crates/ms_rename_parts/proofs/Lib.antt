pub mod Arranged
pub mod Arrangement
pub mod Cuts
pub mod Firsts
pub mod Names
pub mod RenameParts
pub mod Sorted
