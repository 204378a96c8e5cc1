pub mod Failing
pub mod Lacking
pub mod Unique
