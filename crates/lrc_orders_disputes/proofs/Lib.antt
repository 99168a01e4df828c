pub mod Following
pub mod Onward
