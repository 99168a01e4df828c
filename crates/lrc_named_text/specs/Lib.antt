pub mod Expressions
pub mod Labels
pub mod Statements
