pub mod Undisputed
pub mod Findings
pub mod Rounds
pub mod Searched
