pub mod Run
pub mod Searching
