-- The claims proved.
pub mod Answers
pub mod Steps
pub mod Agree
pub mod Discards
mod Ranks
mod Fields
pub mod Theorems
pub mod Places
pub mod Counts
pub mod Bytes
pub mod Alike
pub mod Numbers
pub mod Passed
