-- The laws of `specs/`, for this crate's proofs and those above.
pub mod Laws
