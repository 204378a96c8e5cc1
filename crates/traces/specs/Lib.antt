pub mod Recorded
pub mod Whole
