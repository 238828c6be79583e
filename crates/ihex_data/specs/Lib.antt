pub mod Pieces
pub mod Lines
pub mod Tally
pub mod Scan
pub mod Cuts
