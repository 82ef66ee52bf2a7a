pub mod Examples
pub mod SameRootLaws
