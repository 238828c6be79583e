-- The laws of `specs/`.
pub mod Groups
pub mod ReadBack
