pub mod Beginnings
pub mod Takers
pub mod Takings
pub mod Unique
pub mod Visiting
pub mod Walking
