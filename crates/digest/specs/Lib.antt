pub mod Making
pub mod Parts
pub mod Short
pub mod Feeding
pub mod Handing
