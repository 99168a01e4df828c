pub mod Growing
pub mod Pairing
