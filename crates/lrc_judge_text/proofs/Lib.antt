pub mod Judged
mod Nobody
mod PairLists
mod Racing
pub mod Within
mod Writing
