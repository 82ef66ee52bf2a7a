pub mod RootLaws
pub mod SpreadLaws
pub mod inner
