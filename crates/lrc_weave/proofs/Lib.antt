pub mod Places
pub mod Played
pub mod Members
pub mod Paired
pub mod Rising
pub mod Holding
pub mod Heads
pub mod Weaving
pub mod Stepping
pub mod Coded
mod Spellings
mod Firsts
mod Comparing
mod Owning
mod Lining
mod Looping
mod Repeated
mod Further
