-- The laws of `verdict`'s definitions in the shape of the code's returns.
pub mod Laws
