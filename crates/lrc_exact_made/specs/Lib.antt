pub mod Copies
pub mod Steps
pub mod Laws
