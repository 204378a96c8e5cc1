pub mod Asked
pub mod Symbols
pub mod Tests
