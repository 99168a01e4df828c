pub mod Alike
pub mod Names
pub mod Free
pub mod Settling
pub mod Steps
pub mod Threads
pub mod Rows
