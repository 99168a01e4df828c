pub mod Earlier
pub mod Limits
pub mod Measure
