pub mod Result
pub mod Rooms
pub mod Written
