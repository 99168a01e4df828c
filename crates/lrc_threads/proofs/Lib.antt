mod Steps
mod Turned
mod Traced
mod Threads
mod Logs
mod Joined
pub mod Pasts
