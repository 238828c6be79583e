pub mod Deeds
