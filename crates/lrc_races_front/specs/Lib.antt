pub mod Front
pub mod Kept
pub mod Steps
