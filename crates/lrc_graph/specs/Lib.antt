pub mod Graph
pub mod Reached
