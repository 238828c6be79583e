-- The laws of `specs/`.
pub mod ReadBack
pub mod Entries
pub mod OneEntry
pub mod Parts
