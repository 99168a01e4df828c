pub mod Comes
pub mod Loops
pub mod Traps
pub mod Once
pub mod Trapping
