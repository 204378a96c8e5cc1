pub mod Marks
pub mod MarksLaws
