pub mod Named
pub mod Closing
pub mod Learning
pub mod Accessing
