pub mod Lock
pub mod Managed
pub mod Held
