pub mod Worker
pub mod Threads
