pub mod Place
pub mod Passes
