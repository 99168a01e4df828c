pub mod Unread
pub mod Unfetched
pub mod Kept
pub mod Missing
