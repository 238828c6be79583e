pub mod Demand
pub mod Regions
pub mod Stopped
pub mod Cut
pub mod Verify
