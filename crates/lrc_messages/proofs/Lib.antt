pub mod Joined
pub mod Sizes
pub mod Zeros
