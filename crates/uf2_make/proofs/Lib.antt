-- The laws of `specs/`, and the claims proved.
pub mod Files
pub mod ReadBack
