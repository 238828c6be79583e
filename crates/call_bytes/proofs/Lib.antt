-- The laws of `specs/` in the shape of the calls' returns.
pub mod Laws
