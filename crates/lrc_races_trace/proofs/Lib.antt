pub mod Positions
pub mod HappensBefore
pub mod Cycles
pub mod Prefix
pub mod Told
pub mod Holders
pub mod Lasts
