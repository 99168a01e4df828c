pub mod Lists
pub mod Deeds
pub mod Holders
pub mod Threads
pub mod Deciding
pub mod Ordered
