pub mod Growing
pub mod Measure
