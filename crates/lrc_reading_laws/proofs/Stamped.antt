-- Of the stamps of closed intervals, and the times that nodes keep.
pub mod Lists
pub mod Worlds
pub mod Made
pub mod Turns
pub mod Cuts
pub mod Times
pub mod Law
pub mod Newer
pub mod Asks
pub mod Askers
pub mod Learn
pub mod Frees
pub mod Grants
pub mod Bars
pub mod Sent
