-- The proof of the examples.
pub mod Examples
-- The proof of the examples.
pub mod Windows
-- The proof of the examples.
pub mod CheckFiles
