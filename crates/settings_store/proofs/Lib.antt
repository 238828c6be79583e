-- The laws of `specs/`.
pub mod Parts
pub mod Cases
