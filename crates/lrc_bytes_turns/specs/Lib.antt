pub mod Seen
pub mod Turns
