-- The laws of `specs/`.
pub mod Rooms
