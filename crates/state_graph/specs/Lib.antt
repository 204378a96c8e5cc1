pub mod Graph
pub mod Links
