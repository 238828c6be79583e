pub mod Digits
pub mod Table
pub mod Values
pub mod Pairs
pub mod First
