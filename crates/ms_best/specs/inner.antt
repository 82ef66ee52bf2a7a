pub mod Automaton
pub mod Distances
pub mod Graph
pub mod Least
pub mod Search
