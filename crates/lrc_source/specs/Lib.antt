pub mod Sources
pub mod Telling
