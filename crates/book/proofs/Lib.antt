pub mod Adding
pub mod Cutting
pub mod Forms
pub mod Laying
pub mod Walking
