-- The laws of the loop over entries.
pub mod Rising
