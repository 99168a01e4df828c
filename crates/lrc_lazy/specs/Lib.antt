pub mod Swapped
pub mod Lazy
pub mod Buffering
pub mod Standing
pub mod Front
pub mod Following
