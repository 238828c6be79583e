-- The laws of `specs/` in the shape of the code's returns.
pub mod Laws
