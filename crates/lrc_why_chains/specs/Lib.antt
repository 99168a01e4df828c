pub mod Chains
pub mod Numbers
pub mod Starts
pub mod Known
pub mod Onward
pub mod Held
pub mod Writes
pub mod Crossing
