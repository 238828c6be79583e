pub mod Transfers
pub mod States
pub mod Results
