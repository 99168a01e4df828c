pub mod Filled
pub mod News
pub mod Steps
pub mod Told
