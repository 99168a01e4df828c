pub mod Seeing
pub mod Making
