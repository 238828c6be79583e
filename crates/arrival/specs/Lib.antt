pub mod Arrive
pub mod Lending
pub mod Windows
pub mod File
pub mod Lists
pub mod Facts
pub mod Standing
