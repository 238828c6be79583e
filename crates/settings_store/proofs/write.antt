-- The laws of `specs/`.
pub mod Searches
pub mod Rows
pub mod Cases
