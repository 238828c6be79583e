pub mod Check
pub mod Valid
pub mod Faults
pub mod Regions
pub mod Told
pub mod FileregionsValid
pub mod First
