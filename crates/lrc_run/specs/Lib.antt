pub mod Run
pub mod Unfinished
pub mod Sources
pub mod Halts
