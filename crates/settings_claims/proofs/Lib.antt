-- The claims of `specs/` hold.
pub mod Parts
pub mod Compared
pub mod Written
pub mod Encoding
pub mod Bits
pub mod Strays
pub mod LaidOut
pub mod Refusals
pub mod Targeting
pub mod Places
pub mod Good
