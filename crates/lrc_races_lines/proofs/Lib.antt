pub mod Spelled
pub mod Named
mod Caused
