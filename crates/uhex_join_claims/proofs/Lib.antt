-- The proofs of the claims.
pub mod Written
pub mod Sections
pub mod Whole
pub mod One
pub mod Claims
pub mod Instance
pub mod Characters
pub mod Pieces
pub mod PlainRead
pub mod BadLines
pub mod Past
pub mod Cuts
pub mod PlainFiles
pub mod PlainfileClaims
