mod Adding
mod Offsetting
mod Turns
mod Lengths
mod Reading
pub mod Holding
pub mod Checking
