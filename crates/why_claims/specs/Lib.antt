pub mod Claims
pub mod Bytes
pub mod Alike
pub mod Numbers
pub mod Passed
