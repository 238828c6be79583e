-- The laws of `specs/`.
pub mod Sums
