pub mod Times
pub mod Keeping
pub mod Cover
pub mod Races
pub mod Laws
pub mod Past
pub mod Joined
