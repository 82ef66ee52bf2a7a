pub mod Holding
pub mod Reading
pub mod Spans
pub mod Taking
