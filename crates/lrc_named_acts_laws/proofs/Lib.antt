pub mod Choosing
pub mod Coding
pub mod Counting
pub mod Keeping
pub mod Locking
pub mod Staying
pub mod Steps
