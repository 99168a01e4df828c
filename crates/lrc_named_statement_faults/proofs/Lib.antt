pub mod Different
pub mod Growing
pub mod Names
pub mod Rows
pub mod Senses
