pub mod Types
pub mod Record
pub mod Write
pub mod Bytes
