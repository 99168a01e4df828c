pub mod Sorting
pub mod Telling
