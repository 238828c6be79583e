pub mod Sector
pub mod Block
pub mod File
pub mod Claims
