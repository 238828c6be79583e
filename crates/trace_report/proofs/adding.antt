-- The laws of `specs/`.
pub mod Counted
pub mod Adds
