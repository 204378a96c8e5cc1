pub mod Frames
pub mod Resolving
pub mod Turns
pub mod Visiting
