pub mod AreaReads
pub mod Cells
pub mod Clearing
pub mod Lengths
pub mod Whole
