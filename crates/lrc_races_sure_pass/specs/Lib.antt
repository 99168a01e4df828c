pub mod Covers
pub mod Knowing
pub mod Detecting
