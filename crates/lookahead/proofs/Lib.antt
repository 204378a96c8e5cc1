pub mod Changes
pub mod Lacking
pub mod Slots
