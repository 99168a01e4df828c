pub mod Filtering
pub mod Spotting
pub mod Offering
pub mod Rivaling
pub mod Showing
pub mod Knowing
mod Locating
mod Parts
