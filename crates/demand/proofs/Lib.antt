pub mod Lists
pub mod Runs
pub mod Files
pub mod Contents
pub mod Demand
mod Guards
mod DemandsRuns
pub mod Regions
pub mod Stopped
pub mod Starts
pub mod Cut
pub mod Verify
