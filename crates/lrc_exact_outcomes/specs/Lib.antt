pub mod Outcome
pub mod Laws
