pub mod Turns
pub mod Replays
pub mod Acts
pub mod Courses
