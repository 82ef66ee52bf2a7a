pub mod Inclusion
