pub mod Conflicts
pub mod Lists
pub mod Newness
pub mod Telling
mod Chaining
