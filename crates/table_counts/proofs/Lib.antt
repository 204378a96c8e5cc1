pub mod Bounds
pub mod Entries
pub mod States
pub mod Takes
pub mod Targets
pub mod Turns
pub mod Walks
