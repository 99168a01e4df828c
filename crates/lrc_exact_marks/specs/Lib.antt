pub mod Parts
pub mod Weights
