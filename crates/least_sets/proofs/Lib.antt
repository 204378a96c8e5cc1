pub mod Begins
pub mod Frames
pub mod Loops
pub mod Moves
pub mod Rests
pub mod Turns
