pub mod Joins
pub mod Merges
pub mod Walks
