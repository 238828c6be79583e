-- The laws of `specs/`.
pub mod Joined
pub mod Good
pub mod Sums
