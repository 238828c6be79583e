-- The laws of `specs/`.
pub mod Table
pub mod Written
pub mod Refused
