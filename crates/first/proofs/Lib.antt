pub mod Begins
pub mod Clears
pub mod Collects
pub mod Frames
pub mod Growth
pub mod Loads
