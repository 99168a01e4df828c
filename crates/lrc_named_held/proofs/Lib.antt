pub mod Growing
pub mod Rows
