-- The laws of `specs/`, and that what is written is read back.
pub mod Laws
pub mod Back
