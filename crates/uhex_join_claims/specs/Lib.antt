pub mod Form
pub mod Claims
pub mod Instance
pub mod Characters
pub mod PlainFile
pub mod Refusals
pub mod PlainfileClaims
