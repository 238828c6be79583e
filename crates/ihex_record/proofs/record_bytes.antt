-- The laws of `specs/`.
pub mod InBytes
