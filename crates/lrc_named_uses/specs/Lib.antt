pub mod Deeds
pub mod Loops
pub mod Names
pub mod Shadows
pub mod Shared
pub mod Spots
pub mod Unused
