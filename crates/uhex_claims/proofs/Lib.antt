-- The proofs of the claims.
pub mod LineCase
pub mod Facts
pub mod Claims
pub mod Instance
-- The proofs of the claims.
pub mod OneRecord
pub mod Runs
pub mod Parse
pub mod Lists
pub mod WholefileClaims
pub mod Others
-- The proofs of the claims.
pub mod Exact
pub mod WholefilesInstance
pub mod Reader
pub mod Rows
