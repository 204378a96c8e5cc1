pub mod Members
pub mod Merged
pub mod Moves
pub mod Tested
