pub mod Tiling
pub mod Heads
