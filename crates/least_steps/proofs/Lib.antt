pub mod Entries
pub mod Frames
pub mod Given
pub mod Moves
pub mod Tested
