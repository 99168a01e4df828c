pub mod Followed
pub mod Places
