pub mod Text
pub mod Clock
pub mod Barrier
