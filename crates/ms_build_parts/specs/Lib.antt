pub mod Labels
pub mod Laws
pub mod SaySame
pub mod inner
