pub mod Keys
pub mod Kinds
pub mod Lookup
pub mod Search
