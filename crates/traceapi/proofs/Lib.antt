-- The laws of the calls.
pub mod ReplayLaws
pub mod FiguresLaws
