pub mod CallLists
pub mod Accepts
pub mod HexTurns
pub mod Unused
