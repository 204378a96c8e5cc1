pub mod Places
pub mod Sweep
