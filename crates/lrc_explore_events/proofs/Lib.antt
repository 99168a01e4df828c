pub mod Turning
pub mod Played
