pub mod Edges
pub mod Linking
