-- Of the closed intervals by the acts.
pub mod Stamps
pub mod Changes
pub mod Law
pub mod Writes
pub mod Fixed
pub mod Once
