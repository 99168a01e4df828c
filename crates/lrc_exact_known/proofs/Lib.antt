pub mod States
pub mod KeepingTime
pub mod Made
pub mod Highest
pub mod Kept
