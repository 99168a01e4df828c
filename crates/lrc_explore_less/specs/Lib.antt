pub mod Passing
pub mod Enough
pub mod Met
pub mod Outcomes
