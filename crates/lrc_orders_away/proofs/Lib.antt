pub mod Conflicting
pub mod Coming
