pub mod Absorption
pub mod Makers
pub mod Squeezed
pub mod Columns
