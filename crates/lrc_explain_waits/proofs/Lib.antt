pub mod Circling
pub mod Finding
pub mod Holding
pub mod Standing
pub mod Ways
