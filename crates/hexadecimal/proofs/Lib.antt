pub mod Decoding
pub mod Pairs
