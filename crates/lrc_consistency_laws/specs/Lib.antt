pub mod Kinds
pub mod InOrder
pub mod Racing
pub mod Matching
