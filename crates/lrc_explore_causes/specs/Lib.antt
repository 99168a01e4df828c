pub mod Causes
pub mod Told
