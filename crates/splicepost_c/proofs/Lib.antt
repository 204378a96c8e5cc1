pub mod Calling
pub mod Filling
pub mod Unique
pub mod Zero
