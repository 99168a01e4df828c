pub mod Ahead
pub mod Standing
