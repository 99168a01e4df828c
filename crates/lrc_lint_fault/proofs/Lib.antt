pub mod Opened
pub mod Rows
pub mod Telling
