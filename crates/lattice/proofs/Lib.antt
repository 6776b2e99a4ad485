pub mod Chunks
pub mod Sizes
pub mod Dots
pub mod Streams
pub mod Entrywise
pub mod Gathered
