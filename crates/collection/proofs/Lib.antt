pub mod Asked
pub mod Closing
pub mod Collecting
pub mod Expanding
pub mod Frames
pub mod Modes
pub mod Next
pub mod Unique
