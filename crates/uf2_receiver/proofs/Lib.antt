-- The laws of `specs/` in the shape of the code's returns.
pub mod Laws
-- With what the settings say handed in, an arrival is what it is by the settings.
pub mod KnownLaws
