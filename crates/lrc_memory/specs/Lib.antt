pub mod Notes
pub mod View
pub mod Turns
pub mod Steps
pub mod Shown
