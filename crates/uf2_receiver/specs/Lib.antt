pub mod Receiver
pub mod Looking
