pub mod Begins
pub mod Closes
