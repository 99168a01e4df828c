pub mod Found
pub mod Statements
