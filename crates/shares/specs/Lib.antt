pub mod Drawing
pub mod Shown
pub mod Sizes
