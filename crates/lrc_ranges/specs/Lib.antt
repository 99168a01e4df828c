pub mod Ranges
pub mod Relations
