-- The laws of `specs/`.
pub mod Digits
pub mod Table
pub mod FirstBad
