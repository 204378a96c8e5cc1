pub mod AreaLaws
pub mod AreaProofs
pub mod Areas
pub mod Bounds
pub mod Slots
