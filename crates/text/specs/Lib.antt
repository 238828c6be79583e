pub mod Ascii
pub mod Parts
pub mod Lines
pub mod HexAnswer
pub mod HexState
