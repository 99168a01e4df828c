pub mod Context
pub mod Lines
pub mod Notes
pub mod Seen
pub mod Told
pub mod Words
