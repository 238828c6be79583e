-- The laws of `specs/`.
pub mod Overlap
pub mod Laws
pub mod Tables
pub mod Alike
pub mod Numbers
