pub mod Private
pub mod Answers
