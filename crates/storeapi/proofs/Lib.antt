-- The laws and claims of `specs/`.
mod Laws
pub mod Claims
