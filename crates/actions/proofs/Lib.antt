pub mod Numbers
pub mod Puts
pub mod Tests
pub mod Unique
