pub mod Steady
pub mod Laws
