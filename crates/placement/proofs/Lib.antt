-- The laws of `specs/`, for the crates above.
pub mod First
pub mod Laws
pub mod Theorems
pub mod Alike
