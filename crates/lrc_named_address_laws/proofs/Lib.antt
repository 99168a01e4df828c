pub mod Places
pub mod Valued
pub mod Wrapped
