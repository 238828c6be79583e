-- The laws of `specs/`, and of the code's steps.
pub mod Sectioned
