pub mod Changed
pub mod Copying
pub mod Fixing
pub mod Learned
pub mod Puts
pub mod Rows
