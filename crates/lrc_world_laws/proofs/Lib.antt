pub mod Determined
pub mod Worn
pub mod OfRounds
pub mod OfWandering
pub mod Epochs
pub mod Reports
