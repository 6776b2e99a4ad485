pub mod Words
pub mod Grown
