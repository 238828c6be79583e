-- The laws of `specs/`, and of the code's steps.
pub mod Digits
pub mod Line
pub mod Lines
