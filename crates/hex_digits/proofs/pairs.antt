-- The laws of `specs/`.
pub mod Values
pub mod Stored
