pub mod Columns
pub mod Lines
pub mod Phrases
pub mod Short
pub mod Sketch
pub mod Written
