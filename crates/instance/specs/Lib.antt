pub mod Toy
pub mod Values
pub mod Instance
