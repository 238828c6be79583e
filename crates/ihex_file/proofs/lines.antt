-- The laws of `specs/`.
pub mod Ends
pub mod Whole
