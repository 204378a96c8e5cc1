pub mod Answers
pub mod Ways
