pub mod Replayed
pub mod Turning
pub mod Coursing
