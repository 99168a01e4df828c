pub mod Counting
pub mod Numbering
pub mod Rowing
pub mod Finding
pub mod Spanning
mod Spans
