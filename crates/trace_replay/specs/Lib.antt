pub mod Replay
pub mod Trace
