pub mod Reader
pub mod Effect
