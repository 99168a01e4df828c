pub mod Kinds
pub mod Versions
pub mod Runs
pub mod Ranges
pub mod Spelling
pub mod Reading
