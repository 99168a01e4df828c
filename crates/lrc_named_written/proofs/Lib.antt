pub mod Coming
pub mod Seen
