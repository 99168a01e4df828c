pub mod Paths
pub mod Best
pub mod Tables
pub mod Setting
