pub mod Copies
pub mod Protocol
