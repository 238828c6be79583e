pub mod Uf2file
pub mod Claims
pub mod Uf2lead
pub mod Uf2block
pub mod Uf2check
