-- What windows and good addresses say.
pub mod Windows
-- The laws of `specs/`.
pub mod Laws
