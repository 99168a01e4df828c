pub mod FaultLine
pub mod Labels
pub mod Texts
