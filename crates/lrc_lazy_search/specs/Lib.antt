pub mod Fit
pub mod Searching
pub mod CommonHash
pub mod Parts
pub mod RowHash
pub mod Found
pub mod Task
