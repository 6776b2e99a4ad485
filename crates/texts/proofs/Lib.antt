mod Lengths
mod Wholes
pub mod Keys
