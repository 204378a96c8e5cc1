pub mod Expand
pub mod Left
pub mod Outcomes
pub mod Recorded
pub mod Resolve
pub mod Turns
pub mod Walk
pub mod Whole
