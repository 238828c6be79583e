-- The laws of a step by what the block does.
pub mod Laws
