pub mod Expected
pub mod Kind
