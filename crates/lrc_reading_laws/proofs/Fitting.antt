-- Of copies of pages, and the times that they fit.
pub mod Repair
pub mod Copies
pub mod Later
pub mod First
pub mod Turns
pub mod Played
pub mod Carry
pub mod Worlds
pub mod Sent
pub mod Law
