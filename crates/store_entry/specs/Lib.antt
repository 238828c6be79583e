pub mod EntryBits
pub mod Fields
pub mod Chunks
