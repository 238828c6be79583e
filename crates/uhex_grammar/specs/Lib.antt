pub mod Answers
pub mod Boards
pub mod Grammar
