pub mod Places
pub mod Races
pub mod Pairs
pub mod Epochs
pub mod OfRun
pub mod Comparable
