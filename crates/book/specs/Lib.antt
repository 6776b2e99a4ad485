pub mod Entries
pub mod Of
