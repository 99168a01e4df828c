pub mod Seeds
pub mod Ended
pub mod Ways
