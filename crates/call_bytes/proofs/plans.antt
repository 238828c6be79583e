-- A plan's numbers fit, are told, and are written.
pub mod Laws
