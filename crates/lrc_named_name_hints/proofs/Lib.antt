pub mod Owning
pub mod Searching
pub mod Setting
