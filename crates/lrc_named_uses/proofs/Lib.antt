pub mod Finding
pub mod Growing
pub mod Rows
pub mod Shadowing
pub mod Spotting
