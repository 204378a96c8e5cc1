pub mod Collections
pub mod Expands
