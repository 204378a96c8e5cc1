pub mod Closures
pub mod Runs
