pub mod CheckCall
pub mod CheckBytes
