pub mod Chains
pub mod Starts
pub mod Table
