pub mod Deeds
pub mod Lists
pub mod Places
pub mod Pages
pub mod Racing
pub mod Ordered
