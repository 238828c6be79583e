pub mod Claims
pub mod Alike
pub mod MergesClaims
