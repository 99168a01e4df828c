pub mod Telling
pub mod WithoutRaces
