pub mod Many
pub mod Bitmap
pub mod Flash
pub mod Cells
