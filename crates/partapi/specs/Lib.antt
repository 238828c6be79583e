pub mod PartCalls
pub mod Parts
