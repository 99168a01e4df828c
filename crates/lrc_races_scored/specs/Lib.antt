pub mod Sorts
pub mod Traced
pub mod Missing
pub mod Spelled
pub mod Scored
