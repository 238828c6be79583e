pub mod Block
pub mod Region
pub mod Write
pub mod Field
pub mod WordsWrite
pub mod Regions
pub mod Digests
