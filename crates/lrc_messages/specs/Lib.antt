pub mod Lists
pub mod MessageText
pub mod TurnText
