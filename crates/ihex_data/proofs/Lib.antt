-- The laws of `specs/`, and of the code's steps.
pub mod Tallied
pub mod Length
pub mod Stepped
pub mod Walked
