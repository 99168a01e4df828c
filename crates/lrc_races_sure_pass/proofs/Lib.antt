mod Gathering
mod Handing
mod Giving
mod Writing
mod Telling
mod Covering
pub mod Collecting
