pub mod Seen
pub mod Need
pub mod Wait
