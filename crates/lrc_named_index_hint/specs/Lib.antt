pub mod Line
pub mod Out
pub mod Over
pub mod Spots
