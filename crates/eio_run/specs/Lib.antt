pub mod Answers
pub mod Behind
pub mod Steps
pub mod Words
