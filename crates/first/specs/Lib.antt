pub mod Asked
pub mod Firsts
pub mod Rooms
