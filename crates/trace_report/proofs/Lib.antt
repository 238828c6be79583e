-- The claims proved.
pub mod Records
pub mod Replays
