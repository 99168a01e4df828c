pub mod Ended
pub mod Same
