-- The laws of `specs/`.
pub mod Checks
