pub mod Meeting
pub mod Stuck
pub mod Traps
pub mod Kept
pub mod Verdict
pub mod Notes
pub mod Outcome
