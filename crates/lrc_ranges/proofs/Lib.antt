pub mod Names
pub mod Products
pub mod Quotients
