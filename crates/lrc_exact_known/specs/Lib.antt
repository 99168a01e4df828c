pub mod Known
pub mod Learned
