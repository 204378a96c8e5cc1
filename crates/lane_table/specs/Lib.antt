pub mod Actions
pub mod Beachheads
pub mod Clears
pub mod Numbers
