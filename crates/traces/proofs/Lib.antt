pub mod Left
pub mod Rows
pub mod Trace
pub mod Whole
