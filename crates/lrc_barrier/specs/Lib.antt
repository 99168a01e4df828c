pub mod Barrier
pub mod Filled
