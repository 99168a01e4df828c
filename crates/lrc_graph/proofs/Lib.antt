pub mod Adding
pub mod Edges
pub mod Closing
