pub mod Combine
pub mod Constant
pub mod Layout
pub mod View
pub mod Well
