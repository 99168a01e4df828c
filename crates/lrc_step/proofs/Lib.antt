pub mod Read
pub mod Unmarked
pub mod Parts
pub mod Standing
pub mod PairOrder
pub mod Nodes
pub mod Answered
