pub mod Collected
pub mod Order
pub mod Words
