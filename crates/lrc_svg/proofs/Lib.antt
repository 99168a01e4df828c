pub mod Rows
pub mod WellFormed
