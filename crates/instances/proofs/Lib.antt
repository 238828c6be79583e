-- The proofs of the examples, and of what the files meet.
pub mod Tables
pub mod Instance
pub mod Regions
