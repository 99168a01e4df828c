pub mod Parts
pub mod ActText
pub mod Digits
pub mod Front
pub mod RaceText
pub mod Lines
pub mod Each
