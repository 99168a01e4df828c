pub mod Statements
pub mod Well
