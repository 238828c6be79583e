-- The laws of `specs/`.
pub mod FirstLaws
