pub mod ReplayCall
pub mod FiguresCall
