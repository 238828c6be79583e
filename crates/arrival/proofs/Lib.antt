pub mod Heads
pub mod Windows
pub mod Pages
pub mod Count
pub mod Paged
pub mod Facts
pub mod Standing
