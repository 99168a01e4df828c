pub mod Ranks
pub mod Closing
pub mod Learning
pub mod Accessing
pub mod Repairing
