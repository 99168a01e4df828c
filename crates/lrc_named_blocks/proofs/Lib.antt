pub mod Measure
pub mod Seen
pub mod Within
