pub mod Changes
pub mod Entries
pub mod Grow
pub mod Places
pub mod States
