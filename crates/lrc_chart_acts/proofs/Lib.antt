pub mod Filling
pub mod Tables
mod Closing
mod Marking
