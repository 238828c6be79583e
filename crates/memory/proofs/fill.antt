-- The laws of `specs/`, for the crates above.
pub mod Laws
