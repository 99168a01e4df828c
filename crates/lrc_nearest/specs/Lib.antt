pub mod Best
pub mod Edits
