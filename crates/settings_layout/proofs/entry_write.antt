-- The laws of an entry that is written.
pub mod Pieces
