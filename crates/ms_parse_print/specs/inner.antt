pub mod Header
pub mod Passes
pub mod Printable
pub mod Printed
