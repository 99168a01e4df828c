pub mod Sizes
pub mod Statements
pub mod Tree
