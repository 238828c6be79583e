-- The laws of `specs/`, for the crates above.
pub mod Tests
pub mod Laws
pub mod TabLaws
pub mod OverLaws
pub mod BytesLaws
pub mod Masks
pub mod RowsLaws
pub mod Numbered
-- The laws of `specs/`.
pub mod StoresLaws
-- The laws of `specs/`, for the crates above.
pub mod Widths
pub mod Groups
