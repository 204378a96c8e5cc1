pub mod Asked
pub mod Records
pub mod Sides
pub mod Sinks
pub mod Targets
