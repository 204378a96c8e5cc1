pub mod Changes
pub mod Choices
pub mod Cloning
pub mod Frames
pub mod Going
pub mod Joinings
pub mod NewClones
