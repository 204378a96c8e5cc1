pub mod Below
pub mod Bytes
pub mod Order
pub mod Places
pub mod Targets
pub mod Unique
pub mod Ways
