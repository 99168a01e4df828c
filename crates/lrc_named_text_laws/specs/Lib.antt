pub mod Named
pub mod Spelled
