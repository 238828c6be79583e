-- The laws of what a line says, as the code reads it.
pub mod Decoded
pub mod Rows
