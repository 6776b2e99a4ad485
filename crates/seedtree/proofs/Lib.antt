pub mod Seeds
pub mod Paths
pub mod Growing
pub mod Siblings
