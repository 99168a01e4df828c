pub mod Traces
pub mod Steps
pub mod Runs
pub mod Said
pub mod Telling
