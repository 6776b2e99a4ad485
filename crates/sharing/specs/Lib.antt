pub mod Parts
pub mod Rows
pub mod Sizes
pub mod Known
