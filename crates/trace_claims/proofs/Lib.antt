-- The claims proved.
pub mod Counts
pub mod Ends
pub mod Figures
pub mod Alike
pub mod Merges
pub mod Laws
