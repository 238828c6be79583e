-- The laws of `specs/`.
pub mod Transfers
pub mod Refused
