pub mod Screen
pub mod Parts
