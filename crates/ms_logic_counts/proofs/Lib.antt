pub mod BitLists
pub mod CallLemmas
pub mod CountLemmas
pub mod Doubts
mod ExampleCounts
pub mod Labels
pub mod NoRestriction
pub mod SetLemmas
pub mod StartLemmas
pub mod States
