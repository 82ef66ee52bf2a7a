pub mod AmongLemmas
pub mod ExploredLemmas
pub mod PlacesLemmas
pub mod RunLemmas
pub mod SmallLemmas
pub mod TableLemmas
pub mod TracksLemmas
