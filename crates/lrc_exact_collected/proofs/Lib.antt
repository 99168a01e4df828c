pub mod Deciding
pub mod Arrived
pub mod Rules
pub mod Worlds
pub mod Keepers
pub mod Theorem
