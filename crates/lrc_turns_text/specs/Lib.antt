pub mod Turns
pub mod TurnsText
pub mod Told
