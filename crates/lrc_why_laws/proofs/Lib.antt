pub mod Leaving
pub mod Counting
pub mod Timing
pub mod Giving
pub mod Racing
