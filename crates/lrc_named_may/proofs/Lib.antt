pub mod FirstFaults
pub mod MayStand
pub mod Stopping
pub mod Taken
