pub mod CoreSide
pub mod Places
pub mod Side
pub mod Warned
