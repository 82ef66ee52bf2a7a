pub mod Declaration
pub mod Found
pub mod Numbers
pub mod Read
pub mod Table
