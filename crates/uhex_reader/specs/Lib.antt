pub mod Reader
pub mod Line
pub mod Outcome
pub mod Live
