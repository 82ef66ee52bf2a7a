pub mod of_loads
pub mod of_places
pub mod of_spellings
