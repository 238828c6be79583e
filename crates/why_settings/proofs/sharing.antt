-- The laws of an entry beside the others.
pub mod Laws
