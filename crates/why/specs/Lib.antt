pub mod Why
pub mod Placed
pub mod Checklist
pub mod Parts
