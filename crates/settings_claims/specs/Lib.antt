pub mod Claims
pub mod Bits
pub mod Refusals
pub mod Targeting
pub mod Places
pub mod Good
