pub mod Turns
pub mod Asking
pub mod Events
pub mod Onward
pub mod Stopping
pub mod Behind
