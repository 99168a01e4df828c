pub mod Held
pub mod Owns
pub mod Source
