pub mod Answers
pub mod Coding
pub mod Examples
pub mod Fuels
pub mod Laws
pub mod Readings
pub mod Rooms
