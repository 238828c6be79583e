-- The laws of `specs/`.
pub mod Answers
pub mod Read
pub mod Written
pub mod Refused
