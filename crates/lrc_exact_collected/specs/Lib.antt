pub mod Collected
pub mod Keepers
pub mod Laws
