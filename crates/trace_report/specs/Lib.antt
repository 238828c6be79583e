pub mod Report
pub mod Counting
pub mod Pieces
pub mod Claims
