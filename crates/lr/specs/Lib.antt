pub mod Expansions
pub mod Kernels
pub mod Links
