pub mod Line
pub mod Numbers
pub mod Report
pub mod inner
