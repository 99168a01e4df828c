pub mod Each
pub mod JudgesAll
pub mod Known
pub mod Steps
