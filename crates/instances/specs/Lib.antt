pub mod Comments
pub mod Ram
pub mod Instance
pub mod Regions
