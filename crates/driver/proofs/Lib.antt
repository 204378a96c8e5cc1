pub mod Driving
pub mod Keeps
pub mod Running
pub mod Tokens
pub mod Unique
pub mod Ways
