pub mod Piece
pub mod Ends
pub mod Compared
