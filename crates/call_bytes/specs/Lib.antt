pub mod Calls
pub mod Parts
pub mod PlacesCalls
pub mod HexCalls
