pub mod Lowest
pub mod Passing
pub mod Ways
pub mod WellFormed
