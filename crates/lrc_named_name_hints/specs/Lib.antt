pub mod Hint
pub mod Hints
pub mod Owner
pub mod Seen
