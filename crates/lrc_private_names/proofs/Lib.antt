pub mod Led
pub mod Lasts
pub mod Onward
pub mod Values
