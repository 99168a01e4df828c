pub mod Swapping
pub mod InFront
pub mod ToCome
pub mod Turning
pub mod Searching
