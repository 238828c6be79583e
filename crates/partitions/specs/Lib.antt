pub mod Settings
pub mod Parts
pub mod Table
pub mod Alike
