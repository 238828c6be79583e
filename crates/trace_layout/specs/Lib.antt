pub mod Kept
pub mod Reports
