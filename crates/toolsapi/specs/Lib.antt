pub mod Tools
pub mod Join
