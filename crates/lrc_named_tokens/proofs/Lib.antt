mod Keywords
pub mod Cut
pub mod Ends
pub mod Exist
pub mod Signs
pub mod Steps
pub mod Unique
