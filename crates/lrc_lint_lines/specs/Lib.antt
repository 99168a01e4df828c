pub mod Excerpt
pub mod Expected
pub mod Head
pub mod Kind
