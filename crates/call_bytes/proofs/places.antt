-- The laws of `specs/`.
pub mod Places
pub mod Laws
