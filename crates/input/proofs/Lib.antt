pub mod Digits
pub mod Examples
