-- The laws of `specs/`.
pub mod Entries
