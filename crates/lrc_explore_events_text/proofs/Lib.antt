pub mod Chosen
pub mod Lined
