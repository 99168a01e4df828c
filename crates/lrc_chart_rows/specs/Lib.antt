pub mod Counts
pub mod Rows
pub mod Takers
pub mod Takings
