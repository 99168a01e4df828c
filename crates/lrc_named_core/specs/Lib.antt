pub mod Shape
pub mod Tree
pub mod View
