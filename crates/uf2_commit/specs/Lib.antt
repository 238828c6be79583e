pub mod Entering
pub mod Pages
pub mod Receipts
