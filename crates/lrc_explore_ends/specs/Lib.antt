pub mod Stepped
pub mod Lost
pub mod Answers
