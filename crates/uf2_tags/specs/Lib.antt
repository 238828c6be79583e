pub mod Reader
pub mod Search
pub mod Tag
pub mod Room
