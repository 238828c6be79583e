pub mod WhyCall
pub mod Told
pub mod WhyBytes
