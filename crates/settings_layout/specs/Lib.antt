pub mod Layout
pub mod EntryBytes
