pub mod Halving
pub mod Named
