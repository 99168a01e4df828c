pub mod Steps
pub mod Writing
pub mod Lengths
pub mod Longest
pub mod Turning
