pub mod Tables
pub mod Copies
