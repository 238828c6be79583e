pub mod Causes
pub mod Checks
pub mod Lengths
pub mod Numbers
pub mod Pages
pub mod Progress
