pub mod Trace
pub mod Cycles
pub mod Order
pub mod Races
pub mod Formed
pub mod Groups
