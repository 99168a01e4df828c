pub mod More
pub mod Plays
