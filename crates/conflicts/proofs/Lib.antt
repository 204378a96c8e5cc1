pub mod Counts
pub mod Turns
