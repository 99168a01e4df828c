pub mod Last
pub mod Swapping
pub mod Running
pub mod Fronting
