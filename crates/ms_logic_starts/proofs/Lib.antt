pub mod AtLeastLemmas
pub mod ContentStartsLemmas
mod ExampleCounts
mod ExampleNeeds
pub mod FirstBitsLemmas
pub mod LeftLemmas
pub mod NeededApartLemmas
pub mod RankLemmas
pub mod ReachedPartsLemmas
pub mod RisingLemmas
pub mod Tabulated
