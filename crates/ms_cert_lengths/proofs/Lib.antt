mod ExampleLemmas
pub mod Lengths
