pub mod Contexts
pub mod Sides
pub mod Telling
