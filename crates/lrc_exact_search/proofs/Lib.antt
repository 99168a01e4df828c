pub mod Standing
pub mod Complete
pub mod Meeting
pub mod Spinning
