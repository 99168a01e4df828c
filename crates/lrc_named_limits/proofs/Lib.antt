pub mod Blocks
pub mod Counted
pub mod First
