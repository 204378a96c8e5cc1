pub mod Conflicting
pub mod Puts
