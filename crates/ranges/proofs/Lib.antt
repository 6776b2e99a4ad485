pub mod Fields
pub mod Stages
