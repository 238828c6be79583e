pub mod Store
pub mod Head
pub mod Written
