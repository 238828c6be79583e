-- The laws of `specs/` in the shape of the code's returns, and what they come to.
pub mod Laws
