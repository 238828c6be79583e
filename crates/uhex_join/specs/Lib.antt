pub mod Text
pub mod Join
pub mod Answer
pub mod Result
pub mod Section
