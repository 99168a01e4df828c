pub mod Opened
pub mod Rows
