pub mod Clash
pub mod Reaches
