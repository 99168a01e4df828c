pub mod Copies
pub mod Learned
pub mod Made
