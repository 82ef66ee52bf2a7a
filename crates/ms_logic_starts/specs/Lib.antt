pub mod AtLeast
pub mod ContentStarts
pub mod FirstBits
pub mod NeededApart
pub mod inner
