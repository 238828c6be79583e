-- The laws of `specs/` in the shape of the code's returns, and what the plan performed comes to.
pub mod Laws
