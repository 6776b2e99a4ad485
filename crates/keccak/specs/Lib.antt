pub mod Keccak
pub mod Tables
pub mod Sponge
pub mod Meaning
pub mod Squeezed
