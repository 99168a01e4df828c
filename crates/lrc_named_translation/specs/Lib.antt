pub mod Added
pub mod Made
pub mod Meanings
pub mod Turn
