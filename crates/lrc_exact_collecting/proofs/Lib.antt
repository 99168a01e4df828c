pub mod Keeping
pub mod Leaving
pub mod Discarding
