pub mod Halving
pub mod Apart
