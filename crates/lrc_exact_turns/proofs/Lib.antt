pub mod Stands
pub mod Mending
pub mod Cleaning
pub mod Dropping
pub mod Learning
pub mod Replies
pub mod Deeds
pub mod Turns
