pub mod Acts
pub mod Builds
pub mod Built
pub mod Clears
pub mod Columns
pub mod Numbers
