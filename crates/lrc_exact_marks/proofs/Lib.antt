pub mod Ranks
pub mod Merged
pub mod Weights
