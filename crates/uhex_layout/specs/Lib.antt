pub mod Readers
pub mod Kept
