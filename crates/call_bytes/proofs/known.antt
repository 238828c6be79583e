-- Settings without a table.
pub mod Laws
