pub mod Acts
pub mod ActsText
pub mod Json
pub mod Tally
pub mod Rapid
pub mod RapidOrder
