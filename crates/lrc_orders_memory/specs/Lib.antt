pub mod Parts
pub mod Sharing
