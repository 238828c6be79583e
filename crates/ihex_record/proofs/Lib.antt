-- The laws of `specs/`.
pub mod Endings
pub mod Sums
pub mod Data32
pub mod Checks
pub mod Good
pub mod Positions
pub mod Written
