pub mod Sets
pub mod Tab
pub mod Over
pub mod Bytes
pub mod Rows
pub mod Numbered
pub mod Stores
pub mod Packing
