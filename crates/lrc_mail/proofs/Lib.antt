pub mod Spans
pub mod Puts
pub mod Numbering
pub mod Receivers
pub mod Sparse
