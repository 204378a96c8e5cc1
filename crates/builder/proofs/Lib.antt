pub mod Building
pub mod Calling
pub mod Checking
pub mod Unique
