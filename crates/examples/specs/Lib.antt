pub mod Examples
pub mod Boards
pub mod Tables
pub mod Windows
pub mod CheckFiles
