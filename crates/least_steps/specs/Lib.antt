pub mod Giving
pub mod Least
pub mod Steps
